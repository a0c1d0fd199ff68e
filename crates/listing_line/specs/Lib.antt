pub mod OnPath
pub mod Goes
pub mod SameRun
pub mod Lines
pub mod Parts
