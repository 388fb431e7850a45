pub mod DeskBytes
