pub mod ErrorLine
pub mod OptionalCell
pub mod StopLine
pub mod TextCell
pub mod TypeCell
pub mod ValueCell
