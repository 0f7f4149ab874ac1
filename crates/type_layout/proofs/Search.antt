-- The search for a name, level by level.
use Rattle.std.proofs.Common.{◌≡◌, ◌≢◌, ℕ, zero, suc, ◌-◌, ◌⊎◌, inl, inr, List, Bool, true, false, Option, Some, None, is_some, option_map, refl, sym, ap, ◌∙◌}
use Rattle.isf_reader.specs.declared.user_type.UserType.{UserType}
use Rattle.type_layout.specs.Member.{Spot, Users, spot, own_field, first_through, found_in}
use Rattle.type_layout.specs.declared.place.Place.{Place}

module _ (users : Users) (name : List ℕ) (user : UserType) where
  -- a field of that very name comes first
  own_first : (depth : ℕ) (s : Spot) → own_field name user.fields ≡ Some s → found_in users name depth user ≡ Some s
  unfolding found_in
  own_first zero s e = e
  own_first (suc depth) s e = rw e refl

  -- the search ends with the fields themselves where there is one of that name, or no deeper to go
  pub ends_here : (depth : ℕ) (own : Option Place) → option_map spot own ≡ own_field name user.fields → (is_some own ≡ true) ⊎ (depth ≡ 0) → option_map spot own ≡ found_in users name depth user
  unfolding found_in
  ends_here zero own e h = e
  ends_here (suc depth) None e (inl h) = cc
  ends_here (suc depth) None e (inr h) = cc
  ends_here (suc depth) (Some place) e h = sym (own_first (suc depth) (spot place) (sym e))

  -- else it goes through the anonymous fields
  pub goes_on : (depth : ℕ) (own : Option Place) → option_map spot own ≡ own_field name user.fields → is_some own ≡ false → depth ≢ 0
      → first_through (found_in users name (depth - 1)) users user.fields ≡ found_in users name depth user
  unfolding found_in
  goes_on zero own e h apart = absurd (apart refl)
  goes_on (suc depth) None e h apart = rw (Rattle.std.proofs.Common.sub-one, ← e) refl
  goes_on (suc depth) (Some place) e h apart = cc
