-- The tokens of slots, one after the other.
use Rattle.std.proofs.Common.{◌≡◌, ◌≤◌, ◌-◌, Err, arith, pos, negsuc, ◌^◌, ℕ, ℤ, Bool, true, false, List, [], ◌∷◌, ◌++◌, map, Option, Some, None, refl, sym, ap, ◌∙◌, append_assoc}
use Rattle.std.specs.Prelude.{IfSome, option_map, option_and_then, nat_le, codes, ◌&&◌, if◌then◌else◌}
use Rattle.std.specs.List.{list_all}
use Rattle.std.specs.Str.{bytes_eq}
use Rattle.std.proofs.lemmas.Slice.Eq.{bytes_eq-Decides}
use Rattle.std.specs.Int.{w64}
use Rattle.std.proofs.lemmas.Bool.{and_parts, and_from, false≢true, leb-true, le-leb}
use Rattle.col_model.specs.Arithmetic.{Interval, fitting_value, is_within, Signed, word_values}
use Rattle.col_model.specs.Column.{day_values}
use Rattle.col_model.specs.Value.{Value, integer_slot, whole}
use Rattle.col_text.specs.Slots.{ends_chunk, slots_by, fitting_slot, slot_in, column_slot_in, tick_slot_in, word_slot, interval_of, IsFrontTick, with_front, TickRange, DateRange, TimeRange, WordRange}
use Rattle.col_text.specs.Parts.{with_first}
use Rattle.col_text.specs.Numbers.{integer_of, tick_fit, tick_of}
use Rattle.col_token.specs.Tokens.{words_in}
use Rattle.col_text.specs.Reading.{Becomes, ReadsBy}
use Rattle.col_text.specs.declared.line_error.LineError.{LineError}
use Rattle.col_text.specs.declared.line_error.LineError.TheVariants.{Bad, NoMemory}

with_front-push : {T : Type 0} (front : List T) (slot : T) (rest : Option (List T))
    → with_front (front ++ slot ∷ []) rest ≡ with_front front (with_first (Some slot) rest)
with_front-push front slot (Some slots) = ap Some (append_assoc front (slot ∷ []) slots)
with_front-push front slot None = refl

-- these slots and one token more: a slot comes behind them, the end of a chunk adds none
abbrev slots_after_by : {T : Type 0} → (List ℕ → Option T) → List T → List ℕ
    → Option (List T)
slots_after_by read slots token =
    if ends_chunk token then Some slots
    else option_map (λ slot. slots ++ slot ∷ []) (read token)

-- what the slots so far and a token that may be bad make of the slots behind it
abbrev slots_from : {T : Type 0} → Option (List T) → Option (List T) → Option (List T)
slots_from None rest = None
slots_from (Some front) rest = with_front front rest

by_slot : {T : Type 0} (front : List T) (slot : Option T) (rest : Option (List T))
    → slots_from (option_map (λ s. front ++ s ∷ []) slot) rest
    ≡ with_front front (with_first slot rest)
by_slot front (Some slot) rest = with_front-push front slot rest
by_slot front None rest = refl

by_end : {T : Type 0} (front : List T) (slot : Option T) (rest : Option (List T)) (end : Bool)
    → slots_from (if end then Some front else option_map (λ s. front ++ s ∷ []) slot) rest
    ≡ with_front front (if end then rest else with_first slot rest)
by_end front slot rest true = refl
by_end front slot rest false = by_slot front slot rest

-- a token goes from the front of those that are left to the slots that are read
pub slots_by-token : {T : Type 0} (read : List ℕ → Option T) (front : List T) (token : List ℕ) (tokens : List (List ℕ))
    → slots_from (slots_after_by read front token) (slots_by read tokens)
    ≡ with_front front (slots_by read (token ∷ tokens))
slots_by-token read front token tokens =
    by_end front (read token) (slots_by read tokens) (ends_chunk token)

-- the same, for a token that is read
pub slots_by-step : {T : Type 0} (read : List ℕ → Option T) (front next : List T) (token : List ℕ) (tokens words : List (List ℕ))
    (all : Option (List T)) → words ≡ token ∷ tokens
    → slots_after_by read front token ≡ Some next → with_front front (slots_by read words) ≡ all
    → with_front next (slots_by read tokens) ≡ all
slots_by-step read front next token tokens words all cut step h =
    sym (ap (λ slots. slots_from slots (slots_by read tokens)) step)
    ∙ slots_by-token read front token tokens
    ∙ ap (λ left. with_front front (slots_by read left)) (sym cut)
    ∙ h

-- ---- what is read of each token

map_by : {X Y : Type 0} (f : X → Y) (end : Bool) (slot : Option X) (rest : Option (List X)) (other : Option (List Y))
    → other ≡ option_map (map f) rest
    → (if end then other else with_first (option_map f slot) other)
    ≡ option_map (map f) (if end then rest else with_first slot rest)
map_by f true slot rest other e = e
map_by f false None rest other e = refl
map_by f false (Some slot) None other e = ap (with_first (Some (f slot))) e
map_by f false (Some slot) (Some rest) other e = ap (with_first (Some (f slot))) e

-- slots as others have them
pub slots_by-map : {X Y : Type 0} (f : X → Y) (read : List ℕ → Option X) (tokens : List (List ℕ))
    → slots_by (λ token. option_map f (read token)) tokens ≡ option_map (map f) (slots_by read tokens)
slots_by-map f read [] = refl
slots_by-map f read (token ∷ tokens) =
    map_by f (ends_chunk token) (read token) (slots_by read tokens) _ (slots_by-map f read tokens)

all_by : {T : Type 0} (p : T → Bool) (end : Bool) (slot : Option T) (rest : Option (List T))
    → IfSome slot (λ x. p x ≡ true) → IfSome rest (λ xs. list_all p xs ≡ true)
    → IfSome (if end then rest else with_first slot rest) (λ xs. list_all p xs ≡ true)
all_by p true slot rest here behind = behind
all_by p false None rest here behind = tt
all_by p false (Some slot) None here behind = tt
all_by p false (Some slot) (Some rest) here behind = and_from (p slot) (list_all p rest) here behind

-- what holds of each slot that a token is read as holds of all slots
pub slots_by-all : {T : Type 0} (p : T → Bool) (read : List ℕ → Option T) → ((token : List ℕ) → IfSome (read token) (λ x. p x ≡ true))
    → (tokens : List (List ℕ)) → IfSome (slots_by read tokens) (λ xs. list_all p xs ≡ true)
slots_by-all p read each [] = refl
slots_by-all p read each (token ∷ tokens) =
    all_by p (ends_chunk token) (read token) (slots_by read tokens) (each token) (slots_by-all p read each tokens)

-- ---- one token

and_true : (b : Bool) → b ≡ true → (b && true) ≡ true
and_true b e = rw e refl

most : (n low high : ℕ) → low ≤ high → nat_le n low ≡ true → nat_le n high ≡ true
most n low high h e = let le : n ≤ low = leb-true n low e in le-leb n high (omega arith)

-- the values that are told apart are words of 64 bits
range-words : (range : TickRange) (x : ℤ) → is_within (interval_of range) x ≡ true → is_within (word_values (Signed w64)) x ≡ true
range-words DateRange (pos n) h = most n (2 ^ 31 - 1) (2 ^ 63 - 1) (omega arith) h
range-words DateRange (negsuc n) h =
    and_true (nat_le n (2 ^ 63 - 1)) (most n (2 ^ 31 - 1) (2 ^ 63 - 1) (omega arith) (and_parts (nat_le n (2 ^ 31 - 1)) true h).0)
range-words TimeRange (pos n) h = most n 86_399_999_999_999 (2 ^ 63 - 1) (omega arith) (and_parts _ (nat_le n 86_399_999_999_999) h).1
range-words TimeRange (negsuc n) h = cc
range-words WordRange x h = h

within_tick : (range : Interval) (x y : ℤ) (fits : Bool) → is_within (word_values (Signed w64)) y ≡ fits
    → Some x ≡ tick_fit y → fitting_slot range (Some x) ≡ fitting_slot range (Some y)
within_tick range x y true f e =
    let same : Some x ≡ Some y = rw f at e in
    let one : x ≡ y = cc in
    ap (λ z. fitting_slot range (Some z)) one
within_tick range x y false f e =
    let same : Some x ≡ None = rw f at e in cc

read_tick : (range : Interval) (x : ℤ) (integer : Option ℤ) → Some x ≡ option_and_then tick_fit integer
    → fitting_slot range (Some x) ≡ option_and_then (fitting_slot range) (option_map Some integer)
read_tick range x None e = cc
read_tick range x (Some y) e = within_tick range x y _ refl e

is_bar : (text : List ℕ) → bytes_eq text (codes "|") ≡ true → text ≡ codes "|"
is_bar text e = grind (arith, bytes_eq-Decides)

is_null : (text : List ℕ) → bytes_eq text (codes "null") ≡ true → text ≡ codes "null"
is_null text e = grind (arith, bytes_eq-Decides)

token_tick : (range : Interval) (text : List ℕ) (x : ℤ) (null : Bool) → bytes_eq text (codes "null") ≡ null
    → Some x ≡ tick_of text → fitting_slot range (Some x) ≡ slot_in range text
token_tick range text x true e h =
    let is : text ≡ codes "null" = is_null text e in
    let none : Some x ≡ None = h ∙ ap tick_of is in cc
token_tick range text x false e h = rw e (read_tick range x (integer_of text) h)

-- a token of an integer is the slot of that integer
pub slot_in-tick : (range : Interval) (text : List ℕ) (x : ℤ) → Some x ≡ tick_of text
    → fitting_slot range (Some x) ≡ slot_in range text
slot_in-tick range text x h = token_tick range text x _ refl h

not_within : (range : TickRange) (x : ℤ) (here words : Bool) → is_within (interval_of range) x ≡ here
    → is_within (word_values (Signed w64)) x ≡ words → None ≡ tick_fit x
    → None ≡ fitting_slot (interval_of range) (Some x)
not_within range x false words e f h = rw e refl
not_within range x true true e f h = let same : None ≡ Some x = rw f at h in cc
not_within range x true false e f h = absurd (false≢true (sym f ∙ range-words range x e))

no_integer : (range : TickRange) (integer : Option ℤ) → None ≡ option_and_then tick_fit integer
    → None ≡ option_and_then (fitting_slot (interval_of range)) (option_map Some integer)
no_integer range None h = refl
no_integer range (Some x) h = not_within range x _ _ refl refl h

-- a token that is no integer of 64 bits and isn't null is no slot of the type
pub slot_in-none : (range : TickRange) (text : List ℕ) → bytes_eq text (codes "null") ≡ false → None ≡ tick_of text
    → None ≡ slot_in (interval_of range) text
slot_in-none range text e h = rw e (no_integer range (integer_of text) h)

-- ---- ticks as words

-- a tick of 64 bits that is a time of the day
pub day_word : (x : ℤ) → is_within day_values x ≡ true
    → fitting_value (word_values (Signed w64)) x ≡ fitting_value day_values x
day_word x h = rw (h, range-words TimeRange x h) refl

pub no_day : (x : ℤ) → is_within day_values x ≡ false → None ≡ fitting_value day_values x
no_day x h = rw h refl

tick_by : (range : Interval) (x : ℤ) (within : Bool) → is_within range x ≡ within
    → option_map (λ y. Some (whole y)) (fitting_value range x) ≡ option_map integer_slot (fitting_slot range (Some x))
tick_by range x true e = rw e refl
tick_by range x false e = rw e refl

map_word : {W : Type 0} (reading : W → ℤ) (word : Option W)
    → option_map (word_slot reading) (option_map Some word) ≡ option_map (λ y. Some (whole y)) (option_map reading word)
map_word reading (Some word) = refl
map_word reading None = refl

-- the word of a tick is its slot
pub tick_slot-word : {W : Type 0} (reading : W → ℤ) (range : TickRange) (x : ℤ) (word : Option W)
    → option_map reading word ≡ fitting_value (interval_of range) x
    → option_map (word_slot reading) (option_map Some word) ≡ tick_slot_in range x
tick_slot-word reading range x word e =
    map_word reading word ∙ ap (option_map (λ y. Some (whole y))) e ∙ tick_by (interval_of range) x _ refl

-- a token of an integer is the slot of that integer
pub column_slot-tick : (range : TickRange) (text : List ℕ) (x : ℤ) → Some x ≡ tick_of text
    → tick_slot_in range x ≡ column_slot_in range text
column_slot-tick range text x h = ap (option_map integer_slot) (slot_in-tick (interval_of range) text x h)

-- a token that is no integer of 64 bits and isn't null is no slot of the type
pub column_slot-none : (range : TickRange) (text : List ℕ) → bytes_eq text (codes "null") ≡ false → None ≡ tick_of text
    → None ≡ column_slot_in range text
column_slot-none range text e h = ap (option_map integer_slot) (slot_in-none range text e h)

-- ---- one step of the loop

bar_tick : (text : List ℕ) (x : ℤ) (bar : Bool) → ends_chunk text ≡ bar → Some x ≡ tick_of text → bar ≡ false
bar_tick text x true e h =
    let is : text ≡ codes "|" = is_bar text e in
    let none : Some x ≡ None = h ∙ ap tick_of is in cc
bar_tick text x false e h = refl

-- the token of an integer adds the slot of that integer
slots_after-tick : (range : TickRange) (slots : List (Option Value)) (text : List ℕ) (x : ℤ) → Some x ≡ tick_of text
    → slots_after_by (column_slot_in range) slots text
    ≡ option_map (λ slot. slots ++ slot ∷ []) (tick_slot_in range x)
slots_after-tick range slots text x h =
    rw (bar_tick text x _ refl h, column_slot-tick range text x h) refl

-- a token that is read, in front of a line
pub front-step : {T : Type 0} (read : List ℕ → Option T) (old new : List T) (token rest line : List ℕ)
    → words_in line ≡ token ∷ words_in rest → slots_after_by read old token ≡ Some new
    → with_front new (slots_by read (words_in rest)) ≡ with_front old (slots_by read (words_in line))
front-step read old new token rest line cut step =
    slots_by-step read old new token (words_in rest) (words_in line) _ cut step refl

-- a token that isn't read, in front of a line
front-bad : {T : Type 0} (read : List ℕ → Option T) (old : List T) (token rest line : List ℕ)
    → words_in line ≡ token ∷ words_in rest → slots_after_by read old token ≡ None
    → with_front old (slots_by read (words_in line)) ≡ None
front-bad read old token rest line cut stop =
    ap (λ left. with_front old (slots_by read left)) cut
    ∙ sym (slots_by-token read old token (words_in rest))
    ∙ ap (λ slots. slots_from slots (slots_by read (words_in rest))) stop

becomes_bad : {T : Type 0} (error : LineError) (new : T) (expected : Option T)
    → Becomes (Err error) new expected → error ≡ Bad → expected ≡ None
becomes_bad Bad new expected h e = h
becomes_bad NoMemory new expected h e = cc

after_slot : {T : Type 0} (read : List ℕ → Option T) (slots : List T) (token : List ℕ) → ends_chunk token ≡ false
    → slots_after_by read slots token ≡ option_map (λ slot. slots ++ slot ∷ []) (read token)
after_slot read slots token e = rw e refl

-- a token of a slot that is read
pub slot-step : {T : Type 0} (read : List ℕ → Option T) (old new : List T) (token rest line : List ℕ)
    → words_in line ≡ token ∷ words_in rest → ends_chunk token ≡ false
    → option_map (λ slot. old ++ slot ∷ []) (read token) ≡ Some new
    → with_front new (slots_by read (words_in rest)) ≡ with_front old (slots_by read (words_in line))
slot-step read old new token rest line cut e step =
    front-step read old new token rest line cut (after_slot read old token e ∙ step)

-- and of one that isn't
pub slot-refused : {T : Type 0} (read : List ℕ → Option T) (old new : List T) (token rest line : List ℕ) (error : LineError)
    → words_in line ≡ token ∷ words_in rest → ends_chunk token ≡ false
    → Becomes (Err error) new (option_map (λ slot. old ++ slot ∷ []) (read token))
    → error ≡ Bad → with_front old (slots_by read (words_in line)) ≡ None
slot-refused read old new token rest line error cut e h bad =
    front-bad read old token rest line cut (after_slot read old token e ∙ becomes_bad error new _ h bad)

-- a bar adds no slot
pub bar-step : {T : Type 0} (read : List ℕ → Option T) (old : List T) (token rest line : List ℕ)
    → words_in line ≡ token ∷ words_in rest → ends_chunk token ≡ true
    → with_front old (slots_by read (words_in rest)) ≡ with_front old (slots_by read (words_in line))
bar-step read old token rest line cut e =
    let same : slots_after_by read old token ≡ Some old = rw e refl in
    front-step read old old token rest line cut same

-- a loop that stops at a bad token
pub reads_stop : {X T : Type 0} (view : X → T) (error : LineError) (left all : Option T)
    → (error ≡ Bad → left ≡ None) → left ≡ all → ReadsBy view (Err error) all
reads_stop view Bad left all h e = sym e ∙ h refl
reads_stop view NoMemory left all h e = tt

-- the token of an integer is no bar
pub tick-no_bar : (text : List ℕ) (x : ℤ) → Some x ≡ tick_of text → ends_chunk text ≡ false
tick-no_bar text x h = bar_tick text x _ refl h

-- the integer at the front of a line adds its slot
pub front_tick-step : (range : TickRange) (old new : List (Option Value)) (line rest : List ℕ) (x : ℤ) → IsFrontTick line x rest
    → option_map (λ slot. old ++ slot ∷ []) (tick_slot_in range x) ≡ Some new
    → with_front new (slots_by (column_slot_in range) (words_in rest)) ≡ with_front old (slots_by (column_slot_in range) (words_in line))
front_tick-step range old new line rest x f h =
    front-step (column_slot_in range) old new f.token rest line f.words (slots_after-tick range old f.token x f.value ∙ h)

-- one outside the type makes the line bad
pub front_tick-refused : (range : TickRange) (old new : List (Option Value)) (line rest : List ℕ) (x : ℤ) (error : LineError)
    → IsFrontTick line x rest → Becomes (Err error) new (option_map (λ slot. old ++ slot ∷ []) (tick_slot_in range x))
    → error ≡ Bad → with_front old (slots_by (column_slot_in range) (words_in line)) ≡ None
front_tick-refused range old new line rest x error f h e =
    front-bad (column_slot_in range) old f.token rest line f.words
    (slots_after-tick range old f.token x f.value ∙ becomes_bad error new _ h e)
