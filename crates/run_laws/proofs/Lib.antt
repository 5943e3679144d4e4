mod Events
mod Gathered
