use Rattle.std.proofs.Common.{ℕ, List, subst}
use Rattle.std.proofs.lemmas.Option.{IfSome_then}
use Rattle.layer_base.specs.Known.{Writes}
use Rattle.layer_base.specs.View.{physical}
use Rattle.scan_text.proofs.Listings.{listing-scan}
use Rattle.scan_text.proofs.scan.write_scan.Goals as goal

pub returns : goal.returns
returns g c = record {
  writes = record {
    text = IfSome_then c.args.memory.now.view c.write_hits.ensures.writes (λ view writes.
        subst (λ (text : List ℕ). Writes (g.O.Sink.written c.args.out.now) (g.O.Sink.written c.write_hits.new.out) c.write_hits.result text)
        (listing-scan (physical view) c.args.space c.args.at c.args.len c.args.needle.now c.new-text.result.items _ c.requires.some c.ranges.len.fits c.new-text.ensures.items (c.in_ok-scanner.ensures.hits (physical view)))
        writes);
    memory = c.write_hits.ensures.memory;
    image = c.write_hits.ensures.image;
    out = c.write_hits.ensures.out;
  };
}
