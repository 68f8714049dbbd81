-- The texts that the program says of itself.
use Rattle.std.specs.Prelude.{ℕ, List, ◌++◌, codes}

-- how the program is called
abbrev pub usage_text : List ℕ
usage_text =
    codes "usage: tizlumed eval < SCRIPT\n" ++
    (codes "       tizlumed fold < SCRIPT\n" ++
    (codes "       tizlumed autofold < SCRIPT\n" ++
    (codes "       tizlumed check < SCRIPT\n" ++
    (codes "       tizlumed plan < SCRIPT\n" ++
    (codes "       tizlumed --help\n" ++
    codes "       tizlumed --version\n")))))

-- what it answers
abbrev pub commands_help : List ℕ
commands_help =
    codes "`eval` answers the expression of a script, `check` whether the script's plan\n" ++
    (codes "holds, and `plan` the plan that its columns give. `fold` and `autofold` answer as\n" ++
    codes "`eval`, with casts between units folded by the script's plan, and by that one.\n")

-- the form of a script
abbrev pub script_help : List ℕ
script_help =
    codes "A script has any number of lines `zone NAME`, `col NAME TYPE SLOT ..` and\n" ++
    (codes "`plan NODE LOW HIGH`, and then one line `expr TOKEN ..` in postfix order. A SLOT\n" ++
    (codes "is `null` or an integer. A TYPE is i64, date, time, datetime[UNIT],\n" ++
    (codes "datetime[UNIT,ZONE] or duration[UNIT], a UNIT ns, us or ms. A NODE is a token's\n" ++
    (codes "place from 0, LOW and HIGH are the ends of its slots' interval. A TOKEN is\n" ++
    (codes "  $N             column N, from 0\n" ++
    (codes "  cast:TYPE      a cast; cast!: refuses to lose a slot, cast~: wraps a day\n" ++
    (codes "  +, -, *, /, %  the two operands before it\n" ++
    (codes "  +#K, K#+       an operand and an integer, so with each operator; also tdiv#K\n" ++
    (codes "  unit:UNIT      another unit, wrapped\n" ++
    codes "  shift:P        each slot P rows further down\n")))))))))

-- what the program does, how it is called, and the form of a script
abbrev pub help_text : List ℕ
help_text =
    codes "tizlumed answers one expression over columns of integers, dates, times, moments\n" ++
    (codes "and lengths.\n" ++
    (codes "\n" ++ (usage_text ++ (codes "\n" ++ (commands_help ++ (codes "\n" ++ script_help))))))

-- which version the program is
abbrev pub version_text : List ℕ
version_text = codes "tizlumed 0.2.0\n"
