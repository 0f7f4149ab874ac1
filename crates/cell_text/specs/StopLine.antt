-- The line that says why a walk ended.
use Rattle.std.specs.Prelude.{ℕ, List, ◌++◌, codes, decimal}
use Rattle.kernel_records.specs.declared.stop.Stop.{Stop}
use Rattle.kernel_records.specs.declared.stop.Stop.TheVariants as stops
use Rattle.hex_text.specs.DumpRow.{address_cell}

-- why a walk ended, without a newline
unfoldable pub stop_line : Stop → List ℕ
stop_line stops.Head = codes "stop: head"
stop_line stops.End = codes "stop: end"
stop_line (stops.Repeated at) = codes "stop: repeated " ++ address_cell at
stop_line (stops.Unreadable at) = codes "stop: unreadable " ++ address_cell at
stop_line (stops.Outside at) = codes "stop: outside " ++ address_cell at
stop_line (stops.Limit n) = codes "stop: limit " ++ decimal n
