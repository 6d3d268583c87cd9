pub mod UnEnPassants
