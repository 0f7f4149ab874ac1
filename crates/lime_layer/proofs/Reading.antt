-- How the ranges that were read and those that are left are the ranges of the whole.
use Rattle.std.proofs.Common.{◌≡◌, ℕ, zero, suc, ◌+◌, ◌-◌, ◌<◌, ◌≤◌, true, false, List, [], ◌∷◌, ◌++◌, length, length-take, take, Option, None, Some, Result, Ok, Err, refl, sym, ap, ◌∙◌, arith, append_assoc}
use Rattle.std.specs.Option.{IfSome}
use Rattle.std.proofs.lemmas.List.{append-nil}
use Rattle.layer_base.specs.AddressSpace.{AddressSpace}
use Rattle.layer_base.specs.Present.{present_from}
use Rattle.layer_base.specs.declared.segment.Segment.{Segment}
use Rattle.layer_base.specs.declared.why.Rule.{Rule}
use Rattle.layer_base.specs.declared.why.Rule.TheVariants.{Many}
use Rattle.layer_base.specs.declared.why.Why.{Why}
use Rattle.layer_base.specs.declared.why.Why.TheVariants.{NotThis, Bad}
use Rattle.lime_layer.specs.declared.header.Header.{Header}
use Rattle.lime_layer.specs.Header.{bytes_of}
use Rattle.layer_base.specs.Lime.{range_of, with_front, ends_or, and_behind, ranges_from, is_lime, lime}

-- `front` was read, and the ranges from the next header on are left
pub record IsReadTo (memory : AddressSpace) (most read : ℕ) (next : Option Header) (above : ℕ) (front : List Segment) : Type 0 where
  pub place : ℕ
  pub stands : IfSome next (λ header. header.place ≡ place)
  pub header : bytes_of next ≡ present_from memory place 32
  pub all : with_front front (ranges_from (most - read) memory place above) ≡ ranges_from most memory 0 0

-- no byte at the header's place
ranges_from-end : (n : ℕ) (memory : AddressSpace) (place above : ℕ) → present_from memory place 32 ≡ [] → ranges_from n memory place above ≡ Ok []
unfolding ranges_from
ranges_from-end zero memory place above end = rw end refl
ranges_from-end (suc n) memory place above end = rw end refl

ends_or-more : (header : List ℕ) (more : Result (List Segment) Why) → 0 < length header → ends_or header more ≡ more
ends_or-more [] more some = absurd (omega arith)
ends_or-more (byte ∷ rest) more some = refl

ranges_from-many : (memory : AddressSpace) (place above : ℕ) → 0 < length (present_from memory place 32) → ranges_from 0 memory place above ≡ Err (Bad place Many)
unfolding ranges_from
ranges_from-many memory place above some = ends_or-more (present_from memory place 32) (Err (Bad place Many)) some

ranges_from-more : (n : ℕ) (memory : AddressSpace) (place above : ℕ) (range : Result Segment Rule) → 0 < length (present_from memory place 32) → range_of place above (present_from memory place 32) ≡ range
    → ranges_from (suc n) memory place above ≡ and_behind place range (λ segment. ranges_from n memory (segment.place + segment.length) (segment.first + segment.length))
unfolding ranges_from
ranges_from-more n memory place above range some is = ends_or-more (present_from memory place 32) _ some ∙ rw is refl

with_front-nil : (all : Result (List Segment) Why) → with_front [] all ≡ all
with_front-nil (Ok others) = refl
with_front-nil (Err why) = refl

with_front-append : (front more : List Segment) (rest : Result (List Segment) Why) → with_front (front ++ more) rest ≡ with_front front (with_front more rest)
with_front-append front more (Ok others) = ap (λ l. Ok l) (append_assoc front more others)
with_front-append front more (Err why) = refl

-- before the first header
pub read-none : (memory : AddressSpace) (most : ℕ) (header : Header) → header.place ≡ 0 → take header.count header.bytes ≡ present_from memory 0 32 → IsReadTo memory most 0 (Some header) 0 []
read-none memory most header at_zero bytes = record {
  place = 0;
  stands = at_zero;
  header = bytes;
  all = let whole : most - 0 ≡ most = omega arith in with_front-nil (ranges_from (most - 0) memory 0 0) ∙ ap (λ n. ranges_from n memory 0 0) whole;
}

-- some of a header's bytes are present
some-present : (header : Header) (bytes : List ℕ) → 0 < header.count → header.count ≤ length header.bytes → take header.count header.bytes ≡ bytes → 0 < length bytes
some-present header bytes some fits is = omega (arith, ap length is, length-take header.count header.bytes)

module _ (memory : AddressSpace) (most read above : ℕ) (front : List Segment) where
  -- the list ends
  pub read-end : (next : Option Header) → next ≡ None → IsReadTo memory most read next above front → ranges_from most memory 0 0 ≡ Ok front
  read-end next is so_far =
      let end : present_from memory so_far.place 32 ≡ [] = sym so_far.header ∙ ap bytes_of is in
      sym so_far.all ∙ ap (with_front front) (ranges_from-end (most - read) memory so_far.place above end) ∙ ap (λ l. Ok l) (append-nil front)

  module _ (header : Header) (some : 0 < header.count) (fits : header.count ≤ length header.bytes) (so_far : IsReadTo memory most read (Some header) above front) where
    present : 0 < length (present_from memory so_far.place 32)
    present = some-present header (present_from memory so_far.place 32) some fits so_far.header

    -- there are too many
    pub read-many : most ≤ read → ranges_from most memory 0 0 ≡ Err (Bad header.place Many)
    read-many full =
        let none : most - read ≡ 0 = omega arith in
        sym so_far.all ∙ ap (λ n. with_front front (ranges_from n memory so_far.place above)) none ∙ ap (with_front front) (ranges_from-many memory so_far.place above present) ∙ ap (λ place. Err (Bad place Many)) (sym so_far.stands)

    range-is : (range : Result Segment Rule) → range ≡ range_of header.place above (take header.count header.bytes) → range_of so_far.place above (present_from memory so_far.place 32) ≡ range
    range-is range is = ap (λ place. range_of place above (present_from memory so_far.place 32)) (sym so_far.stands) ∙ ap (range_of header.place above) (sym so_far.header) ∙ sym is

    left : read < most → (range : Result Segment Rule) → range ≡ range_of header.place above (take header.count header.bytes)
        → with_front front (and_behind so_far.place range (λ segment. ranges_from (most - (read + 1)) memory (segment.place + segment.length) (segment.first + segment.length))) ≡ ranges_from most memory 0 0
    left below range is =
        let one : suc (most - (read + 1)) ≡ most - read = omega arith in
        ap (with_front front) (sym (ranges_from-more (most - (read + 1)) memory so_far.place above range present (range-is range is))) ∙ ap (λ n. with_front front (ranges_from n memory so_far.place above)) one ∙ so_far.all

    -- a header breaks a rule
    pub read-bad : (rule : Rule) → read < most → Err rule ≡ range_of header.place above (take header.count header.bytes) → ranges_from most memory 0 0 ≡ Err (Bad header.place rule)
    read-bad rule below is = sym (left below (Err rule) is) ∙ ap (λ place. Err (Bad place rule)) (sym so_far.stands)

    -- a range more
    pub read-more : (segment : Segment) (next : Option Header) → read < most → Ok segment ≡ range_of header.place above (take header.count header.bytes)
        → IfSome next (λ h. h.place ≡ segment.place + segment.length) → bytes_of next ≡ present_from memory (segment.place + segment.length) 32
        → IsReadTo memory most (read + 1) next (segment.first + segment.length) (front ++ segment ∷ [])
    read-more segment next below is stands bytes = record {
      place = segment.place + segment.length;
      stands = stands;
      header = bytes;
      all = with_front-append front (segment ∷ []) (ranges_from (most - (read + 1)) memory (segment.place + segment.length) (segment.first + segment.length)) ∙ left below (Ok segment) is;
    }

-- what begins as LiME is read as its ranges
pub lime-ranges : (memory : AddressSpace) (header : List ℕ) → header ≡ present_from memory 0 32 → is_lime header ≡ true → lime memory ≡ ranges_from 65536 memory 0 0
unfolding lime
lime-ranges memory header is test = rw (← is, test) refl

pub lime-other : (memory : AddressSpace) (header : List ℕ) → header ≡ present_from memory 0 32 → is_lime header ≡ false → lime memory ≡ Err NotThis
unfolding lime
lime-other memory header is test = rw (← is, test) refl
