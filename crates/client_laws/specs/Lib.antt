pub mod ClientRun
