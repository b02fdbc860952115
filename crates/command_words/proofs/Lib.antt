mod Orders
mod Places
mod Steps
