mod Order
mod Ascending
mod Named
mod Walks
mod Numbers
mod KindRows
mod Along
