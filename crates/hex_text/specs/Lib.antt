pub mod DumpRow
