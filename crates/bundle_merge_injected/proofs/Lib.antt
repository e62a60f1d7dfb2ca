mod Grammar
mod Loads
mod Nodes
mod Parts
mod Written
