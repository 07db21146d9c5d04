mod Caches
mod Lines
