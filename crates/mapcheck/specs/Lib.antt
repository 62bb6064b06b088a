pub mod MapChecks
