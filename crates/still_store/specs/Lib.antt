pub mod Frame
pub mod Recovery
pub mod Findings
pub mod Verification
pub mod Looking
