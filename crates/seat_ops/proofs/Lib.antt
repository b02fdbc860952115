mod Using
mod Answering
