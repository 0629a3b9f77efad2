mod Steps
mod SmallNumbers
