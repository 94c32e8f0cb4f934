mod Opened
mod Over
mod Moved
