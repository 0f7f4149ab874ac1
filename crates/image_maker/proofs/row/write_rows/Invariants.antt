use Rattle.std.proofs.Common.{◌≡◌, take}
use Rattle.image_maker.specs.Rows.{pieces}
use Rattle.image_maker.specs.Written.{written}
use Rattle.image_maker.proofs.row.write_rows.Given as goal

-- the rows so far are written
abbrev pub invariant-loop-row : goal.invariant-loop-row
invariant-loop-row l = l.bytes ≡ written (pieces l.from (take l.row-index l.rows)) l.fn.bytes
