-- The keys of runs.
use Rattle.std.proofs.Common.{◌≡◌, ℕ, ◌+◌, ◌-◌, ◌*◌, ◌/◌, ◌%◌, ◌<◌, ◌≤◌, Bool, true, false, ◌&&◌, Option, refl, sym, ap, ◌∙◌, arith}
use Rattle.std.proofs.Math.Bool.{beq}
use Rattle.std.proofs.Math.Nat.{div-mul-le_self, lt-div-mul-add, div-add-mod}
use Rattle.std.proofs.lemmas.Bool.{eqb-true, eq-eqb}
use Rattle.std.proofs.lemmas.Nat.{div-mul-add}
use Rattle.layer_base.specs.Mapped.{block_size, Holds, IsAligned, KeptRun}
use Rattle.layer_base.specs.Space.{page_address}
use Rattle.layer_base.specs.declared.space.Levels.{Levels}
use Rattle.layer_base.specs.declared.space.Levels.TheVariants.{Four, Five}
use Rattle.layer_base.specs.declared.space.Space.{Space}
use Rattle.layer_base.specs.declared.space.Space.TheVariants.{Phys, Paged}
use Rattle.intel_paging.proofs.Blocks.{block_size-some}
use Rattle.run_cache.specs.Cache.{kept_run, HoldsIn}
use Rattle.run_cache.specs.Key.{are_five, levels_from, key_of, key_around, kept_at, run_at_key}
use Rattle.run_cache.specs.declared.key.RunKey.{RunKey}
use Rattle.run_cache.specs.contracts.key.RunKeyPartialEq.TheImpl.{eq-value}

both_true : (p q : Bool) → p && q ≡ true → (p ≡ true) × (q ≡ true)
both_true true q is = (refl, is)
both_true false q is = absurd (cc is)

beq-true : (p q : Bool) → beq p q ≡ true → p ≡ q
beq-true true true is = refl
beq-true true false is = absurd (cc is)
beq-true false true is = absurd (cc is)
beq-true false false is = refl

beq-same : (p : Bool) → beq p p ≡ true
beq-same true = refl
beq-same false = refl

-- equal keys are one key
pub same_key : (a b : RunKey) → eq-value.it a b ≡ true → b ≡ a
same_key a b is =
    let first = both_true _ _ is in
    let second = both_true _ _ first.1 in
    let third = both_true _ _ second.1 in
    λ i. record { root = sym (eqb-true a.root b.root first.0) i; five_levels = sym (beq-true a.five_levels b.five_levels second.0) i; first = sym (eqb-true a.first b.first third.0) i; last = sym (eqb-true a.last b.last third.1) i }

-- a key is equal to itself
pub key_again : (a : RunKey) → eq-value.it a a ≡ true
key_again a = rw (eq-eqb a.root a.root refl, beq-same a.five_levels, eq-eqb a.first a.first refl, eq-eqb a.last a.last refl) refl

levels_again : (levels : Levels) → levels_from (are_five levels) ≡ levels
levels_again Four = refl
levels_again Five = refl

five_again : (five : Bool) → are_five (levels_from five) ≡ five
five_again true = refl
five_again false = refl

-- a run that is kept under its own key
pub kept_under : (root : ℕ) (levels : Levels) (first last : ℕ) (to : Option ℕ) → kept_at (key_of root levels first last) to ≡ kept_run (Paged root levels) (record { first = first; last = last; to = to })
kept_under root levels first last to = ap (λ (l : Levels). kept_run' (Paged (page_address root) l)) (levels_again levels)
  where
    kept_run' : Space → KeptRun
    kept_run' space = record { space = space; run = record { first = first; last = last; to = to } }

root_in : Space → ℕ
root_in Phys = 0
root_in (Paged root levels) = root

levels_in : Space → Levels
levels_in Phys = Four
levels_in (Paged root levels) = levels

pub same_root : (root other : ℕ) (levels l : Levels) → Paged root levels ≡ Paged other l → root ≡ other
unfolding root_in
same_root root other levels l is = ap root_in is

pub same_levels : (root other : ℕ) (levels l : Levels) → Paged root levels ≡ Paged other l → levels ≡ l
unfolding levels_in
same_levels root other levels l is = ap levels_in is

-- the aligned block of a size that holds an address is the one around it
around : (size first at : ℕ) → 0 < size → first % size ≡ 0 → first ≤ at → at ≤ first + (size - 1) → at / size * size ≡ first
around size first at some aligned above within =
    let whole : first / size * size ≡ first = (let parts = div-add-mod first size in let turned : first / size * size ≡ size * (first / size) = ring_turn (first / size) size in omega (arith, parts, aligned, turned)) in
    let place : first / size * size + (at - first) ≡ at = omega (arith, whole, above) in
    let quotient : at / size ≡ first / size = ap (λ a. a / size) (sym place) ∙ div-mul-add (first / size) size (at - first) (omega arith) in
    ap (λ q. q * size) quotient ∙ whole
  where
    ring_turn : (a b : ℕ) → a * b ≡ b * a
    ring_turn a b = grind arith

-- A kept run of a space that holds an address has the key of its level around the address.
pub key_is : (root : ℕ) (levels : Levels) (at : ℕ) (key : RunKey) (to : Option ℕ) (aligned : IsAligned (run_at_key key to)) → HoldsIn (Paged root levels) at (kept_at key to) → key ≡ key_around root levels aligned.level at
key_is root levels at key to aligned held =
    let size = block_size aligned.level in
    let root_is : key.root ≡ page_address root = same_root _ _ _ _ held.space_is in
    let levels_is : levels_from key.five_levels ≡ levels = same_levels _ _ _ _ held.space_is in
    let five_is : key.five_levels ≡ are_five levels = sym (five_again key.five_levels) ∙ ap are_five levels_is in
    let within : at ≤ key.first + (size - 1) = omega (arith, held.holds.last, aligned.size) in
    let first_is : at / size * size ≡ key.first = around size key.first at (block_size-some aligned.level) aligned.aligned held.holds.first within in
    let last_is : key.last ≡ at / size * size + (size - 1) = aligned.size ∙ ap (λ f. f + (size - 1)) (sym first_is) in
    λ i. record { root = root_is i; five_levels = five_is i; first = sym first_is i; last = last_is i }

-- the block of a level around an address holds it
pub around-holds : (root : ℕ) (levels : Levels) (level at : ℕ) (to : Option ℕ) → Holds (run_at_key (key_around root levels level at) to) at
around-holds root levels level at to =
    let below : at / block_size level * block_size level ≤ at = div-mul-le_self at (block_size level) in
    let above : at < at / block_size level * block_size level + block_size level = lt-div-mul-add (block_size-some level) in
    record { first = below; last = omega (arith, above) }
