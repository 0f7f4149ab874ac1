-- The member of a name.
use Rattle.std.specs.Prelude.{◌≡◌, ℕ, zero, suc, ◌+◌, List, [], ◌∷◌, Option, Some, None, IfSome, find, option_map, option_and_then, ok_or, Result, Err, bytes_eq}
use Rattle.std.specs.Option.{option_or}
use Rattle.isf_reader.specs.Depth.{entry_named, brought_in, user_name, deepest}
use Rattle.isf_reader.specs.Table.{IsfTable}
use Rattle.isf_reader.specs.declared.type_ref.TypeRef.{TypeRef}
use Rattle.isf_reader.specs.declared.user_type.Field.{Field}
use Rattle.isf_reader.specs.declared.user_type.UserType.{UserType}
use Rattle.type_layout.specs.declared.fault.TypeFault.{TypeFault}
use Rattle.type_layout.specs.declared.fault.TypeFault.TheVariants.{NoType, NoMember, NotCompound}
use Rattle.type_layout.specs.declared.place.Place.{Place}

-- how far from the start of a type, and the type that stands there
abbrev pub Spot : Type 0
Spot = ℕ × TypeRef

abbrev pub spot : Place → Spot
spot place = (place.offset, place.of.now)

-- where a field stands
abbrev pub spot_of : Field → Spot
spot_of field = (field.offset, field.of)

-- so much further on
abbrev pub further : ℕ → Spot → Spot
further offset s = (offset + s.0, s.1)

abbrev pub Users : Type 0
Users = List (List ℕ × UserType)

-- the user type whose fields a field brings in
abbrev pub user_brought : Users → Field → Option UserType
user_brought users field = option_and_then (λ name. entry_named name users) (brought_in field)

-- what a search finds in the type that a field brings in, the field's own offset further on
abbrev pub found_through : (UserType → Option Spot) → Users → Field → Option Spot
found_through search users field = option_map (further field.offset) (option_and_then search (user_brought users field))

-- what is found through the first field through which anything is
abbrev pub first_through : (UserType → Option Spot) → Users → List Field → Option Spot
first_through search users [] = None
first_through search users (field ∷ fields) = option_or (found_through search users field) (first_through search users fields)

-- the field of that very name, anonymous or not
abbrev pub own_field : List ℕ → List Field → Option Spot
own_field name fields = option_map spot_of (find (λ field. bytes_eq field.name name) fields)

-- a field of that very name, else what is found through the anonymous fields
abbrev pub own_or_through : (UserType → Option Spot) → Users → List ℕ → UserType → Option Spot
own_or_through search users name user = option_or (own_field name user.fields) (first_through search users user.fields)

-- where a user type has a name, through anonymous fields that nest at most so deep
unfoldable pub found_in : Users → List ℕ → ℕ → UserType → Option Spot
found_in users name zero user = own_field name user.fields
found_in users name (suc depth) user = own_or_through (found_in users name depth) users name user

-- where a user type of a table has a name
abbrev pub found : Users → List ℕ → UserType → Option Spot
found users name = found_in users name deepest

-- in each user type of a table a field of the very name comes first, else the anonymous fields are searched in the same
-- way, however deep they nest
abbrev pub IsSearchedAlike : Users → List ℕ → Type 0
IsSearchedAlike users name = (type_name : List ℕ) → IfSome (entry_named type_name users) (λ user. found users name user ≡ own_or_through (found users name) users name user)

-- the member of a user type, where it is defined
abbrev pub member_in : Users → List ℕ → Option UserType → Result Spot TypeFault
member_in users name None = Err NoType
member_in users name (Some user) = ok_or (found users name user) NoMember

-- the member of the user type of a name, or its fault
abbrev pub member_named : IsfTable → List ℕ → List ℕ → Result Spot TypeFault
member_named table user name = member_in table.users name (entry_named user table.users)

-- the member of what a descriptor names, where it is a struct, union or class
abbrev pub member_of : IsfTable → List ℕ → Option (List ℕ) → Result Spot TypeFault
member_of table name None = Err NotCompound
member_of table name (Some user) = member_named table user name

-- the member of a type, or its fault
abbrev pub member : IsfTable → TypeRef → List ℕ → Result Spot TypeFault
member table of name = member_of table name (user_name of)
