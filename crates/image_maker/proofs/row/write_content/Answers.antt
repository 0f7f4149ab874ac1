use Rattle.std.proofs.Common.{sym, ap, ◌∙◌}
use Rattle.byteorder.specs.Numbers.{length-bytes_low_first}
use Rattle.image_maker.specs.Rows.{content_bytes}
use Rattle.image_maker.specs.Written.{word, half, written_at}
use Rattle.image_maker.specs.declared.row.Content.{Content}
use Rattle.image_maker.proofs.Overwriting.{piece-put}
use Rattle.image_maker.proofs.row.write_content.Goals as goal

pub returns-in-Word : goal.returns-in-Word
unfolding word
returns-in-Word c =
    piece-put c.args.offset c.args.bytes.now 8 (word c.in-Word.number) _ (length-bytes_low_first 0 8 c.in-Word.number) c.write_u64.ensures
    ∙ ap (λ (content : Content). written_at c.args.offset (content_bytes content) c.args.bytes.now) (sym c.in-Word.is)

pub returns-in-Half : goal.returns-in-Half
unfolding half
returns-in-Half c =
    piece-put c.args.offset c.args.bytes.now 4 (half c.in-Half.number) _ (length-bytes_low_first 0 4 c.in-Half.number) c.write_u32.ensures
    ∙ ap (λ (content : Content). written_at c.args.offset (content_bytes content) c.args.bytes.now) (sym c.in-Half.is)
