-- Members that are put into an object one by one.
use Rattle.std.proofs.Common.{◌≡◌, ℕ, ◌+◌, ◌<◌, List, [], ◌∷◌, ◌++◌, length, get_or, take, map, sym, ap, ◌∙◌, arith}
use Rattle.std.proofs.lemmas.Grind.{common_steps}
use Rattle.std.proofs.lemmas.List.Sums.{fold_push}
use Rattle.serde_json.specs.Data.{Data, Members, put}
use Rattle.image_maker.specs.Json.{put_all}

module _ {X : Type 0} (member : X → List ℕ × Data) (items : List X) (i : ℕ) (item : X) (inside : i < length items) (here : item ≡ get_or items i item) where
  members-more : map member (take (i + 1) items) ≡ map member (take i items) ++ member item ∷ []
  members-more = grind (arith, common_steps)

  -- a member more
  pub members-next : (start old new : Members) → old ≡ put_all (map member (take i items)) start → new ≡ put (member item).0 (member item).1 old → new ≡ put_all (map member (take (i + 1) items)) start
  members-next start old new before after =
      after ∙ ap (put (member item).0 (member item).1) before
      ∙ sym (fold_push (λ (held : Members) (new : List ℕ × Data). put new.0 new.1 held) start (map member (take i items)) (member item))
      ∙ ap (λ list. put_all list start) (sym members-more)
