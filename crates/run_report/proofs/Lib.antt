mod Printed
mod RunSums
mod RunPrinted
