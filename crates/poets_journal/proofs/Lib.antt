mod Held
mod Crash
mod Starting
mod Keeps
mod Parts
mod Opening
