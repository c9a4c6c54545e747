pub mod Prime
