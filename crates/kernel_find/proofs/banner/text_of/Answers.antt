use Rattle.kernel_find.proofs.Banners.{take-min}
use Rattle.kernel_find.proofs.banner.text_of.Goals as goal

pub returns-clause-text : goal.returns-clause-text
returns-clause-text c = take-min 4096 _ _ _ c.before_zero-text.ensures c.min.ensures
