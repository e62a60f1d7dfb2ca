mod Items
mod Objects
