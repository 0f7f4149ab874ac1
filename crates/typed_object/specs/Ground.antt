-- The memory of the kernel.
use Rattle.layer_base.specs.AddressSpace.{AddressSpace}
use Rattle.layer_base.specs.Space.{page_address}
use Rattle.layer_base.specs.declared.space.Space.{Space}
use Rattle.layer_base.specs.declared.space.Space.TheVariants.{Paged}
use Rattle.kernel_records.specs.declared.kernel.Kernel.{Kernel}
use Rattle.space_memory.specs.InSpace.{in_space}

-- the space of the kernel's page tables
abbrev pub kernel_space : Kernel → Space
kernel_space kernel = Paged (page_address kernel.root) kernel.levels

-- the memory of the kernel, in a physical memory
abbrev pub kernel_memory : AddressSpace → Kernel → AddressSpace
kernel_memory physical kernel = in_space physical (kernel_space kernel)
