mod Seats
mod Outs
mod Starts
mod Ending
mod Parts
mod Looking
mod Silence
