mod Area
mod Legal
mod Listed
mod Those
