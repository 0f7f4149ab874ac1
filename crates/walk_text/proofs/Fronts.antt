-- The laws of what of a text was written.
use Rattle.std.proofs.Common.{◌≡◌, ℕ, List, [], ◌++◌, Option, refl, sym, ◌∙◌, ap, append_assoc}
use Rattle.std.proofs.lemmas.List.{append-nil}
use Rattle.std.specs.Io.KnownBytes.{Appends}
use Rattle.layer_base.specs.Known.{AppendsPrefix}
use Rattle.layer_base.proofs.Appending.{Appends-none, Appends-append, AppendsPrefix-behind, StartsWith-from, StartsWith-same}
use Rattle.walk_text.specs.Front.{WritesFront}

pub WritesFront-none : (old : Option (List ℕ)) (text : List ℕ) → WritesFront old old text text
WritesFront-none old text = ([], Appends-none old, refl)

pub WritesFront-all : (old new : Option (List ℕ)) (text : List ℕ) → Appends old new text → WritesFront old new text []
WritesFront-all old new text appends = (text, appends, sym (append-nil text))

-- the same with more behind it
pub WritesFront-more : (old new : Option (List ℕ)) (text rest more : List ℕ) → WritesFront old new text rest → WritesFront old new (text ++ more) (rest ++ more)
WritesFront-more old new text rest more front = (front.0, front.1, ap (λ (l : List ℕ). l ++ more) front.2 ∙ append_assoc front.0 rest more)

pub WritesFront-trans : (old mid new : Option (List ℕ)) (text rest left : List ℕ) → WritesFront old mid text rest → WritesFront mid new rest left → WritesFront old new text left
WritesFront-trans old mid new text rest left first second = (
  first.0 ++ second.0,
  Appends-append old mid new first.0 second.0 first.1 second.1,
  first.2 ∙ ap (λ (l : List ℕ). first.0 ++ l) second.2 ∙ sym (append_assoc first.0 second.0 left),
)

pub WritesFront-prefix : (old new : Option (List ℕ)) (text rest : List ℕ) → WritesFront old new text rest → AppendsPrefix old new text
WritesFront-prefix old new text rest front = (front.0, front.1, StartsWith-from text front.0 rest front.2)

-- what is written of the rest, in full or in part
pub Appends-behind : (old mid new : Option (List ℕ)) (text rest : List ℕ) → WritesFront old mid text rest → Appends mid new rest → Appends old new text
Appends-behind old mid new text rest front appends = rw front.2 (Appends-append old mid new front.0 rest front.1 appends)

pub Prefix-behind : (old mid new : Option (List ℕ)) (text rest : List ℕ) → WritesFront old mid text rest → AppendsPrefix mid new rest → AppendsPrefix old new text
Prefix-behind old mid new text rest front prefix = AppendsPrefix-behind old mid new front.0 rest text front.1 prefix (rw front.2 (StartsWith-same (front.0 ++ rest)))

-- a prefix of a front is one of the whole
pub Prefix-front : (old new : Option (List ℕ)) (front text rest : List ℕ) → text ≡ front ++ rest → AppendsPrefix old new front → AppendsPrefix old new text
Prefix-front old new front text rest split prefix = AppendsPrefix-behind old old new [] front text (Appends-none old) prefix (StartsWith-from text front rest split)
