-- How what is appended in one call after another adds up.
use Rattle.std.proofs.Common.{◌≡◌, ℕ, List, [], ◌++◌, length, take, Option, None, Some, Result, Ok, Err, IsErr, refl, sym, ◌∙◌, ap, append_assoc, ◌-◌, drop, take-append-drop}
use Rattle.std.proofs.lemmas.List.{take_at, take_rest, append-nil}
use Rattle.std.specs.Io.{StartsWith}
use Rattle.std.specs.Io.KnownBytes.{Appends}
use Rattle.layer_base.specs.Known.{AppendsPrefix, Writes}

pub Appends-none : (old : Option (List ℕ)) → Appends old old []
Appends-none None = tt
Appends-none (Some xs) = sym (append-nil xs)

pub Appends-append : (old mid new : Option (List ℕ)) (xs ys : List ℕ) → Appends old mid xs → Appends mid new ys → Appends old new (xs ++ ys)
Appends-append None mid new xs ys first second = tt
Appends-append (Some a) None new xs ys first second = absurd first
Appends-append (Some a) (Some b) None xs ys first second = absurd second
Appends-append (Some a) (Some b) (Some c) xs ys first second = second ∙ ap (λ (l : List ℕ). l ++ ys) first ∙ append_assoc a xs ys

-- what stands in front of a text is a prefix of it
pub StartsWith-front : (xs ys : List ℕ) → StartsWith (xs ++ ys) xs
StartsWith-front xs ys = take_at xs ys (length xs) refl

-- a refused writer appended a front of its text
pub Writes-refused : {T E : Type 0} (old new : Option (List ℕ)) (result : Result T E) (text : List ℕ) → IsErr result → AppendsPrefix old new text → Writes old new result text
Writes-refused old new (Ok x) text refused prefix = absurd (cc refused)
Writes-refused old new (Err e) text refused prefix = prefix

-- a piece that is gone through from its front, some bytes further on
pub front-further : (piece done rest : List ℕ) (n : ℕ) → piece ≡ done ++ rest → piece ≡ (done ++ take n rest) ++ take (length rest - n) (drop n rest)
front-further piece done rest n split =
    split ∙ ap (λ (l : List ℕ). done ++ l) (sym (take-append-drop n rest)) ∙ sym (append_assoc done (take n rest) (drop n rest))
    ∙ ap (λ (l : List ℕ). (done ++ take n rest) ++ l) (sym (take_rest rest n))

-- a text that starts so goes on
pub StartsWith-split : (text front : List ℕ) → StartsWith text front → text ≡ front ++ drop (length front) text
StartsWith-split text front starts = sym (take-append-drop (length front) text) ∙ ap (λ (l : List ℕ). l ++ drop (length front) text) starts

pub StartsWith-from : (text front rest : List ℕ) → text ≡ front ++ rest → StartsWith text front
StartsWith-from text front rest split = ap (take (length front)) split ∙ StartsWith-front front rest

pub StartsWith-same : (text : List ℕ) → StartsWith text text
StartsWith-same text = StartsWith-from text text [] (sym (append-nil text))

pub StartsWith-trans : (text front first : List ℕ) → StartsWith text front → StartsWith front first → StartsWith text first
StartsWith-trans text front first starts begins =
    StartsWith-from text first (drop (length first) front ++ drop (length front) text) (
    StartsWith-split text front starts ∙ ap (λ (l : List ℕ). l ++ drop (length front) text) (StartsWith-split front first begins)
    ∙ append_assoc first (drop (length first) front) (drop (length front) text)
    )

-- a front of what stands behind a text
pub StartsWith-behind : (before text front : List ℕ) → StartsWith text front → StartsWith (before ++ text) (before ++ front)
StartsWith-behind before text front starts =
    StartsWith-from (before ++ text) (before ++ front) (drop (length front) text) (
    ap (λ (l : List ℕ). before ++ l) (StartsWith-split text front starts) ∙ sym (append_assoc before front (drop (length front) text))
    )

-- a prefix of a text, behind what was appended before
pub AppendsPrefix-behind : (old mid new : Option (List ℕ)) (xs ys text : List ℕ) → Appends old mid xs → AppendsPrefix mid new ys → StartsWith text (xs ++ ys) → AppendsPrefix old new text
AppendsPrefix-behind old mid new xs ys text first second starts = (
  xs ++ second.0,
  Appends-append old mid new xs second.0 first second.1,
  StartsWith-trans text (xs ++ ys) (xs ++ second.0) starts (StartsWith-behind xs ys second.0 second.2),
)
