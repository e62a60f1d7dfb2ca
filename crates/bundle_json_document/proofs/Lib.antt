mod ByItem
mod Fronts
mod Maps
mod Numbers
mod Reading
mod Turns
mod Wanting
mod Whole
