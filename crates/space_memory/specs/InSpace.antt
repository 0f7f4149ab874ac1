-- The bytes of a space of addresses.
use Rattle.std.specs.Prelude.{◌^◌, nat_lt, if◌then◌else◌, None, option_and_then}
use Rattle.layer_base.specs.AddressSpace.{AddressSpace}
use Rattle.layer_base.specs.declared.space.Space.{Space}
use Rattle.intel_paging.specs.Block.{translation}

-- the byte at each address of a space of a physical memory: the one at its physical address, None where it has none
unfoldable pub in_space : AddressSpace → Space → AddressSpace
in_space memory space a = if nat_lt a (2 ^ 64) then option_and_then memory (translation memory space a) else None
