-- `answer` meets its contract.
use Rattle.console_answers.proofs.Answered.{answered_call, answered_ask, answered_bad}
use Rattle.console_answers.proofs.answer.Goals as goal

pub returns-in-Some-Register : goal.returns-in-Some-Register
returns-in-Some-Register c =
    let form = c.in-Some-Register in
    answered_call c.args.flat.now c.args.pane.now (rw form.field-0-is at form.ensures) c.register_line.ensures

pub returns-in-Some-Ask : goal.returns-in-Some-Ask
returns-in-Some-Ask c =
    let form = c.in-Some-Ask in
    answered_ask c.requires.sound (rw form.field-0-is at form.ensures) c.ask_line-end.ensures

pub returns-in-None : goal.returns-in-None
returns-in-None c =
    answered_bad c.args.flat.now c.args.pane.now c.requires.sound c.in-None.ensures c.put_bad-end.ensures
