-- What a whole script comes to, by how long it is.
use Rattle.std.proofs.Common.{◌≡◌, ℕ, ◌+◌, ◌-◌, ◌<◌, ◌≤◌, Bool, true, false, List, ◌++◌, length, take, refl, ◌∙◌, ap, arith}
use Rattle.std.specs.Io.{StartsWith}
use Rattle.std.proofs.lemmas.Bool.Decides.{nat_tests}
use Rattle.std.proofs.Math.Seq.{take-append-add}
use Rattle.layer_base.proofs.Appending.{StartsWith-from, StartsWith-trans}
use Rattle.session.specs.Limits.{most_script}
use Rattle.session.specs.Lines.{cut_lines}
use Rattle.session.specs.Said.{Said}
use Rattle.session.specs.Script.{bytes_run, is_short, parts_of, script_part, script_taken}
use Rattle.session.specs.Turn.{rest_part}
use Rattle.session.specs.declared.status.Status.TheVariants as status
use Rattle.session.proofs.Parts.{parts-all, parts-more}

pub is_short-within : (script : List ℕ) → length script ≤ 16777216 → is_short script ≡ true
is_short-within script within = grind (arith, nat_tests)

pub is_short-past : (script : List ℕ) → 16777216 < length script → is_short script ≡ false
is_short-past script past = grind (arith, nat_tests)

module _ (script : List ℕ) where
  pub taken-short : is_short script ≡ true → script_taken script ≡ script
  unfolding script_taken
  taken-short short = rw short refl

  pub taken-long : is_short script ≡ false → script_taken script ≡ take (most_script + 1) script
  unfolding script_taken
  taken-long long = rw long refl

  pub status-short : (says : List ℕ → Said) → is_short script ≡ true → (bytes_run says script).status ≡ status.Ok
  status-short says short = rw short refl

  pub status-long : (says : List ℕ → Said) → is_short script ≡ false → (bytes_run says script).status ≡ status.ScriptTooLong
  status-long says long = rw long refl

module _ (part : List ℕ → List ℕ) (behind script : List ℕ) where
  pub part-short : is_short script ≡ true → script_part part behind script ≡ parts_of part (cut_lines script).whole ++ rest_part part (cut_lines script).rest
  unfolding script_part
  part-short short = rw short (parts-all part script)

  pub part-long : is_short script ≡ false → script_part part behind script ≡ parts_of part (cut_lines (take most_script script)).whole ++ behind
  unfolding script_part
  part-long long = rw long refl

-- a front of a script that is read
module _ (script given more : List ℕ) (split : script ≡ given ++ more) where
  -- what its whole lines give to a sink stands in front of what the script's do
  pub part-front : (part : List ℕ → List ℕ) (behind : List ℕ) → length given ≤ 16777216 → StartsWith (script_part part behind script) (parts_of part (cut_lines given).whole)
  part-front part behind within = by_length (is_short script) refl
    where
      front : (others : List ℕ) (whole : List ℕ) → whole ≡ given ++ others → (text : List ℕ) (rest : List ℕ) → text ≡ parts_of part (cut_lines whole).whole ++ rest → StartsWith text (parts_of part (cut_lines given).whole)
      front others whole is text rest text_is =
          StartsWith-trans text (parts_of part (cut_lines (given ++ others)).whole) _
          (StartsWith-from text _ rest (text_is ∙ ap (λ (l : List ℕ). parts_of part (cut_lines l).whole ++ rest) is)) (parts-more part given others)

      by_length : (b : Bool) → is_short script ≡ b → StartsWith (script_part part behind script) (parts_of part (cut_lines given).whole)
      by_length true short = front more script split (script_part part behind script) (rest_part part (cut_lines script).rest) (part-short part behind script short)
      by_length false long =
          let n = 16777216 - length given in
          let all : 16777216 ≡ length given + n = omega arith in
          front (take n more) (take most_script script) (ap (take most_script) split ∙ ap (λ k. take k (given ++ more)) all ∙ take-append-add given more n) (script_part part behind script) behind (part-long part behind script long)

  -- and its bytes in front of those that are taken
  pub taken-front : length given ≤ 16777217 → StartsWith (script_taken script) given
  taken-front within = by_length (is_short script) refl
    where
      by_length : (b : Bool) → is_short script ≡ b → StartsWith (script_taken script) given
      by_length true short = StartsWith-from _ given more (taken-short script short ∙ split)
      by_length false long =
          let n = 16777217 - length given in
          let all : 16777217 ≡ length given + n = omega arith in
          StartsWith-from _ given (take n more) (taken-long script long ∙ ap (take 16777217) split ∙ ap (λ k. take k (given ++ more)) all ∙ take-append-add given more n)
