mod Settling
mod Leaving
mod Outs
mod Ending
mod Returning
