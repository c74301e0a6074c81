mod Adding
mod Draining
mod Looking
mod Walking
