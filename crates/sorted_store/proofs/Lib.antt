mod Stretches
mod Inserting
mod Adding
mod Growing
mod Answering
