mod Lines
mod Prefix
mod Printed
mod Putting
