-- A number makes a setting with its eight bytes.
use Rattle.define.specs.Define.{of_number, of_answer}
use Rattle.define.proofs.Settings.{number_setting}
use Rattle.define.proofs.settle.of_answer.Goals as goal

pub returns-in-Number-clause-does : goal.returns-in-Number-clause-does
unfolding of_answer
returns-in-Number-clause-does c =
    let name = c.args.name.now in
    let v = c.in-Number.x in
    λ o h. rw (c.in-Ok.is, c.in-Number.is) (c.put.ensures.does (of_number name v) o (number_setting name v _ _ c.number.ensures c.number_content.ensures) h)
