use Rattle.std.proofs.Common.{ℕ, List, subst}
use Rattle.std.proofs.lemmas.Option.{IfSome_then}
use Rattle.layer_base.specs.Known.{Writes}
use Rattle.layer_base.specs.View.{physical}
use Rattle.scan_text.proofs.Listings.{listing-banners}
use Rattle.scan_text.proofs.banners.write_banners.Goals as goal

pub returns : goal.returns
returns g c = record {
  writes = record {
    text = IfSome_then c.args.memory.now.view c.write_hits.ensures.writes (λ view writes.
        subst (λ (text : List ℕ). Writes (g.O.Sink.written c.args.out.now) (g.O.Sink.written c.write_hits.new.out) c.write_hits.result text)
        (listing-banners (physical view) c.in_ok-text.text.items _ c.in_ok-text.ensures.items (c.in_ok-scanner.ensures.hits (physical view)))
        writes);
    memory = c.write_hits.ensures.memory;
    image = c.write_hits.ensures.image;
    out = c.write_hits.ensures.out;
  };
}
