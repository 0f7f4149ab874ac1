-- Lemmas on what is unread.
use Rattle.std.proofs.Common.{◌≡◌, ℕ, ◌+◌, ◌-◌, ◌≤◌, List, ◌++◌, Option, take, drop, slice_range, sym, ap, ◌∙◌, arith, take-append-drop, drop-drop, take-take}
use Rattle.std.proofs.lemmas.List.{drop-take}
use Rattle.std.proofs.KnownBytes.{prepend_known-nil}
use Rattle.std.specs.Io.KnownBytes.{prepend_known}
use Rattle.real_files.specs.ReadAhead.{left_behind}
use Rattle.real_files.specs.declared.ahead.Ahead.{Ahead}

-- a part of a list is its first n elements and what is behind them
pub slice_range-split : (xs : List ℕ) (start end n : ℕ) → n ≤ end - start → slice_range xs start end ≡ take n (drop start xs) ++ slice_range xs (start + n) end
slice_range-split xs start end n within =
    let rest = end - (start + n) in
    let whole : end - start ≡ n + rest = omega arith in
    let part = slice_range xs start end in
    let front = take-take n (end - start) (drop start xs) within in
    let back : drop n part ≡ slice_range xs (start + n) end =
    ap (λ k. drop n (take k (drop start xs))) whole ∙ drop-take n rest (drop start xs) ∙ ap (take rest) (drop-drop n start xs) in
    sym (take-append-drop n part) ∙ ap (λ l. l ++ drop n part) front ∙ ap (λ l. take n (drop start xs) ++ l) back

-- where nothing is unread, the file's bytes alone are left
pub left_behind-nothing : (ahead : Ahead) (left : Option (List ℕ)) → ahead.end ≤ ahead.start → left_behind ahead left ≡ left
left_behind-nothing ahead left none =
    let empty : ahead.end - ahead.start ≡ 0 = omega arith in
    ap (λ n. prepend_known (take n (drop ahead.start ahead.bytes)) left) empty ∙ prepend_known-nil left
