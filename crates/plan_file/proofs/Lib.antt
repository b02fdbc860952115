mod Refusals
mod Once
