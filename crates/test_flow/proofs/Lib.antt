mod Vertices
mod Interned
