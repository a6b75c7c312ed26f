pub mod Horn
