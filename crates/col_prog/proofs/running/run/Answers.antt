use Rattle.std.proofs.Common.{true, false}
use Rattle.col_prog.proofs.CommandLemmas.{read_by-command}
use Rattle.col_prog.proofs.running.run.Goals as goal

pub returns-in-Err-Fault-clause-unread : goal.returns-in-Err-Fault-clause-unread
returns-in-Err-Fault-clause-unread g c = λ e.
    c.answer_to.ensures.unread (read_by-command c.args.words.now c.in-Some.command false c.in-Some.ensures.command e)

pub returns-in-Err-TooLong-clause-unread : goal.returns-in-Err-TooLong-clause-unread
returns-in-Err-TooLong-clause-unread g c = λ e.
    c.answer_to.ensures.unread (read_by-command c.args.words.now c.in-Some.command false c.in-Some.ensures.command e)

pub returns-in-Err-NoMemory-clause-unread : goal.returns-in-Err-NoMemory-clause-unread
returns-in-Err-NoMemory-clause-unread g c = λ e.
    c.answer_to.ensures.unread (read_by-command c.args.words.now c.in-Some.command false c.in-Some.ensures.command e)

pub returns-in-Ok-write_all-clause-unread : goal.returns-in-Ok-write_all-clause-unread
returns-in-Ok-write_all-clause-unread g c = λ e.
    c.answer_to.ensures.unread (read_by-command c.args.words.now c.in-Some.command false c.in-Some.ensures.command e)

pub returns-in-Ok-write_all-clause-end : goal.returns-in-Ok-write_all-clause-end
returns-in-Ok-write_all-clause-end g c = λ e answer.
    c.in-Ok.ensures.end (read_by-command c.args.words.now c.in-Some.command true c.in-Some.ensures.command e)

pub returns-in-Ok-write_all-clause-within : goal.returns-in-Ok-write_all-clause-within
returns-in-Ok-write_all-clause-within g c = λ e answer.
    c.in-Ok.ensures.within (read_by-command c.args.words.now c.in-Some.command true c.in-Some.ensures.command e)

pub returns-clause-unread : goal.returns-clause-unread
returns-clause-unread g c = λ e.
    c.answer_to.ensures.unread (read_by-command c.args.words.now c.in-Some.command false c.in-Some.ensures.command e)

pub returns-clause-write_end : goal.returns-clause-write_end
returns-clause-write_end g c = λ e fault.
    c.in-Ok.ensures.end (read_by-command c.args.words.now c.in-Some.command true c.in-Some.ensures.command e)

pub returns-clause-write_within : goal.returns-clause-write_within
returns-clause-write_within g c = λ e fault.
    c.in-Ok.ensures.within (read_by-command c.args.words.now c.in-Some.command true c.in-Some.ensures.command e)
