mod FirstFrom
mod Held
mod Elements
mod StepWords
mod Passes
mod SetTable
mod PlaceTable
mod EncodeWords
