use Rattle.std.proofs.Common.{◌+◌, ◌≤◌, arith}
use Rattle.std.proofs.lemmas.Option.{IfSome_then}
use Rattle.layer_base.proofs.Told.{IfSome-both}
use Rattle.layer_base.specs.View.{physical}
use Rattle.space_memory.specs.InSpace.{in_space}
use Rattle.needle_search.proofs.Reached.{all-longer}
use Rattle.chunk_scanner.specs.Window.{kept_bytes}
use Rattle.chunk_scanner.proofs.Windows.{tells-filled, enough-inside, followed-bytes, followed-length}
use Rattle.chunk_scanner.proofs.scan.turn.Goals as goal

pub search-found-requires-clause-reached : goal.search-found-requires-clause-reached
search-found-requires-clause-reached g c =
    rw c.bytes.ensures (all-longer c.args.wanted.now.needles (kept_bytes c.enough.new.window) (kept_bytes c.args.window.now) c.args.position.now.number c.args.progress.now c.in_ok-filled.ensures.front c.requires.scan.reached)

pub returns-clause-hits : goal.returns-clause-hits
returns-clause-hits g c =
    let wanted = c.args.wanted.now in
    let filled = c.in_ok-filled.filled in
    let at = c.args.position.now.at in
    let inside : at + filled.count ≤ wanted.last + 1 = enough-inside wanted at filled c.in_ok-filled.ensures.enough in
    IfSome-both c.args.memory.now.view c.in_ok-filled.ensures.kept c.in_ok-filled.ensures.hole (λ view kept hole.
    c.search-found.ensures.hits (physical view) (rw c.bytes.ensures (
    tells-filled (in_space (physical view) wanted.space) wanted at (kept_bytes c.enough.new.window) filled c.known_until-until.result c.requires.scan.sound kept c.in_ok-filled.ensures.count hole c.known_until-until.ensures.known c.known_until-until.ensures.most inside)))

pub returns-clause-kept : goal.returns-clause-kept
returns-clause-kept g c =
    let position = c.search-found.new.position in
    IfSome_then c.args.memory.now.view c.in_ok-filled.ensures.kept (λ view kept.
    followed-bytes (in_space (physical view) c.args.wanted.now.space) c.args.position.now.at position.at position.done (kept_bytes c.enough.new.window) (kept_bytes c.follow.new.window) c.search-found.ensures.further.address c.follow.ensures.done c.follow.ensures.kept kept)

pub returns-clause-scan : goal.returns-clause-scan
returns-clause-scan g c =
    let wanted = c.args.wanted.now in
    let position = c.search-found.new.position in
    let filled = c.in_ok-filled.filled in
    let at = c.args.position.now.at in
    let inside : at + filled.count ≤ wanted.last + 1 = enough-inside wanted at filled c.in_ok-filled.ensures.enough in
    record {
      sound = c.requires.scan.sound;
      stands = c.search-found.ensures.stands;
      buffer = c.follow.ensures.window;
      room = omega (arith, c.requires.scan.room, c.in_ok-filled.ensures.room, c.follow.ensures.room);
      inside = followed-length wanted.last at (kept_bytes c.enough.new.window) (kept_bytes c.follow.new.window) position (omega (arith, inside, c.in_ok-filled.ensures.count)) c.search-found.ensures.further.address c.follow.ensures.done c.follow.ensures.kept;
      reached = c.follow.ensures.reached wanted.needles c.args.position.now.number (rw c.bytes.ensures at c.search-found.ensures.reached) c.search-found.ensures.further.number;
    }
