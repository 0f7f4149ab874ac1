use Rattle.std.proofs.Common.{rules, arith, ◌≡◌, Some}
use Rattle.serde_json.specs.Find.{get}
use Rattle.serde_json.specs.View.{view}
use Rattle.isf_reader.proofs.Descriptors.{type_of_is, depth_within}
use Rattle.isf_reader.proofs.type_of.+type_of.Goals as goal

pub type_at-type_of-requires : goal.type_at-type_of-requires
type_at-type_of-requires t c =
    let found : get c.args.key.now (view c.args.value.now) ≡ Some (view c.in-Some.inner) = search rules in
    let within = depth_within c.args.key.now (view c.args.value.now) (view c.in-Some.inner) found in
    (omega (arith, within), tt)

pub type_of-returns-in_default : goal.type_of-returns-in_default
type_of-returns-in_default t c = rw (type_of_is (view c.args.value)) (search rules)

pub type_of-returns-in-Base : goal.type_of-returns-in-Base
type_of-returns-in-Base t c = rw (type_of_is (view c.args.value)) (search rules)

pub type_of-returns-in-Struct : goal.type_of-returns-in-Struct
type_of-returns-in-Struct t c = rw (type_of_is (view c.args.value)) (search rules)

pub type_of-returns-in-Union : goal.type_of-returns-in-Union
type_of-returns-in-Union t c = rw (type_of_is (view c.args.value)) (search rules)

pub type_of-returns-in-Class : goal.type_of-returns-in-Class
type_of-returns-in-Class t c = rw (type_of_is (view c.args.value)) (search rules)

pub type_of-returns-in-Enum : goal.type_of-returns-in-Enum
type_of-returns-in-Enum t c = rw (type_of_is (view c.args.value)) (search rules)

pub type_of-returns-in-Pointer : goal.type_of-returns-in-Pointer
type_of-returns-in-Pointer t c = rw (type_of_is (view c.args.value)) (search rules)

pub type_of-returns-in-Array : goal.type_of-returns-in-Array
type_of-returns-in-Array t c = rw (type_of_is (view c.args.value)) (search rules)

pub type_of-returns-in-Bits : goal.type_of-returns-in-Bits
type_of-returns-in-Bits t c = rw (type_of_is (view c.args.value)) (search rules)

pub type_of-returns : goal.type_of-returns
type_of-returns t c = rw (type_of_is (view c.args.value)) (search rules)
