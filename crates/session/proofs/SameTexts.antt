use Rattle.std.proofs.Common.{◌≡◌, ap}
use Rattle.layer_base.specs.View.{physical}
use Rattle.session.specs.Evidence.{evidence_at}
use Rattle.session.specs.Laws.{AreSameTexts}
use Rattle.session.specs.Line.{line_said, is_quit}
use Rattle.session.specs.Script.{script_run}

-- images with the same bytes have the same memory, and a run knows nothing else of an image
pub same_texts : AreSameTexts
same_texts has_dump one other same table script =
    let memories : physical one ≡ physical other = λ i at. same at i in
    ap (λ memory. script_run (line_said has_dump (evidence_at memory table)) is_quit script) memories
