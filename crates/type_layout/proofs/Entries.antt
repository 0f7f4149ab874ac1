-- What holds of each entry of a section holds of the entry of a name.
use Rattle.std.proofs.Common.{◌≡◌, ℕ, List, [], ◌∷◌, Bool, true, false, cond, Bor, Option, Some, None, IfSome, subst, sym, is_eq, nat_cmp}
use Rattle.std.specs.Cmp.Lexicographic.{slice_cmp}
use Rattle.std.specs.List.{AllByRecursion}
use Rattle.std.specs.Option.{option_copied}
use Rattle.isf_reader.specs.Depth.{entry_named}

-- what holds of a value holds of what it is behind
some_copied : {T : Type 0} (P : T → Type 0) (r : Option (Bor T)) (o : Option T) → option_copied r ≡ o → IfSome o P → IfSome r (λ x. P x.now)
some_copied P None o e h = tt
some_copied P (Some x) o e h = let Q : Option _ → Type 0 = λ v. IfSome v P in subst Q (sym e) h

kept_if : {E : Type 0} (P : E → Type 0) (b : Bool) (entry : E) (o : Option E) → P entry → IfSome o P → IfSome (cond b (Some entry) o) P
kept_if P true entry o h more = h
kept_if P false entry o h more = more

kept : {E : Type 0} (P : E → Type 0) (name : List ℕ) (entries : List (List ℕ × E)) → AllByRecursion (λ e. P e.1) entries → IfSome (entry_named name entries) P
kept P name [] h = tt
kept P name (e ∷ entries) h = kept_if P (is_eq (slice_cmp nat_cmp name e.0)) e.1 (entry_named name entries) h.0 (kept P name entries h.1)

-- of what a look-up gives
pub kept_behind : {E : Type 0} (P : E → Type 0) (name : List ℕ) (entries : List (List ℕ × E)) (r : Option (Bor E)) → option_copied r ≡ entry_named name entries → AllByRecursion (λ e. P e.1) entries → IfSome r (λ x. P x.now)
kept_behind P name entries r e h = some_copied P r (entry_named name entries) e (kept P name entries h)
