-- A record has its name field.
use Rattle.std.proofs.Common.{arith}
use lib.Seq.{length-take-le}
use Rattle.progress.proofs.is_setting.Goals as goal

pub slice_bounds-has_macro_name-end : goal.slice_bounds-has_macro_name-end
slice_bounds-has_macro_name-end c = omega (arith, c.requires, length-take-le 64 c.args.r.now (omega (arith, c.requires)))
