mod FirstFrom
mod NumberWords
mod TextWords
mod Held
mod Elements
mod SizeWords
mod InkLines
mod ModeWords
