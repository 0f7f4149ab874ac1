use Rattle.std.proofs.Common.{◌≡◌, ℕ, ◌+◌, ◌-◌, ◌<◌, ◌≤◌, length, ap, ◌∙◌, arith}
use Rattle.std.proofs.lemmas.Bool.{cond-false}
use Rattle.needle_search.specs.FirstHit.{rank, NeedleOccurs}
use Rattle.chunk_scanner.specs.Hits.{hits_from}
use Rattle.chunk_scanner.specs.Position.{addresses_left}
use Rattle.chunk_scanner.specs.Scan.{searched}
use Rattle.chunk_scanner.proofs.Telling.{none-until, hit-first, hits_from-behind}
use Rattle.chunk_scanner.proofs.search.search.Goals as goal
use Rattle.chunk_scanner.proofs.search.search.Goals.{in_default-via-in-Some+else-hit-until, in_default-via-in_default}

pub returns-in-Some-clause-hits : goal.returns-in-Some-clause-hits
returns-in-Some-clause-hits c memory tells =
    let wanted = c.args.wanted.now in
    let part = searched memory wanted in
    let position = c.args.position.now in
    let hit = c.in-Some.hit in
    let first = c.in-Some.ensures.first in
    let left : addresses_left wanted.last position ≡ wanted.last + 1 - position.at = cond-false position.done 0 (wanted.last + 1 - position.at) c.requires.begun in
    ap (hits_from part wanted.needles position.at position.number) left
    ∙ hit-first part wanted.needles position.at c.args.bytes.now c.args.until wanted.last position.number tells c.requires.wanted.needles.few c.requires.stands.number c.requires.least c.requires.most hit.at hit.needle (omega arith) first.number first.above first.occurs first.none_before

pub returns-in_default-clause-hits : goal.returns-in_default-clause-hits
returns-in_default-clause-hits c memory tells =
    let wanted = c.args.wanted.now in
    let part = searched memory wanted in
    let position = c.args.position.now in
    let left : addresses_left wanted.last position ≡ wanted.last + 1 - position.at = cond-false position.done 0 (wanted.last + 1 - position.at) c.requires.begun in
    let few : length wanted.needles ≤ 8 = c.requires.wanted.needles.few in
    let none : (place k : ℕ) → position.at + place ≤ c.args.until → k < length wanted.needles → position.number ≤ rank place k → ¬ NeedleOccurs wanted.needles c.args.bytes.now k place =
    elim c.in_default.branch [ in_default-via-in-Some+else-hit-until w ↦ (λ place k within inside ranked. w.in-Some.ensures.first.none_before place k inside ranked (omega arith)) | in_default-via-in_default w ↦ (λ place k within inside ranked. w.in_default.ensures.first place k inside ranked) ] in
    ap (hits_from part wanted.needles position.at position.number) left
    ∙ none-until part wanted.needles position.at c.args.bytes.now c.args.until wanted.last position.number tells c.requires.wanted.needles.few c.requires.stands.number c.requires.least c.requires.most none
    ∙ hits_from-behind part wanted.needles c.args.until wanted.last c.behind.result.number c.behind.result.at (addresses_left wanted.last c.behind.result) c.requires.most c.behind.ensures.number c.behind.ensures.left c.behind.ensures.address
