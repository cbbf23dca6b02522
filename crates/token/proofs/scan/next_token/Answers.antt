-- The class of the byte decides.
use Rattle.std.proofs.Common.{◌-◌, rules}
use Rattle.token.proofs.Reading.{at_end, at_blank, at_comment}
use Rattle.token.proofs.scan.next_token.Goals as goal

pub returns-in_default : goal.returns-in_default
returns-in_default c = at_end c.args.expr.now c.args.at.0 (200 - c.args.read.0) c.args.after c.args.dialect (search rules)

pub returns-in-Blank : goal.returns-in-Blank
returns-in-Blank c =
    record {
      goes = at_blank c.args.expr.now c.args.at.0 c.args.after c.args.dialect (search rules) c.class_of-class.result (search rules) (200 - c.args.read.0)
          c.in-Blank.is;
      within = search rules;
    }

pub returns-in-Comment : goal.returns-in-Comment
returns-in-Comment c =
    at_comment c.args.expr.now c.args.at.0 c.args.after c.args.dialect
    (search rules) c.class_of-class.result (search rules) (200 - c.args.read.0) c.in-Comment.is
